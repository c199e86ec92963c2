-- The invariant of a row of blocks, and that each step of the layout machine keeps it.
pub mod Transfer
pub mod Joining
pub mod Invariant
pub mod Past
pub mod Dropping
