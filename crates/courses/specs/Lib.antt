-- 02, U12, "Four courses, one log": what is claimed of federation days.
pub mod Heard
pub mod Days
pub mod Claims
pub mod Boards
pub mod Bundles
