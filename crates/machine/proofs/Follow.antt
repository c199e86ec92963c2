-- The layout machine follows the day: what a table has to keep, and no more.
pub mod Agrees
pub mod Steps
pub mod Shown
pub mod Pool
pub mod Single
