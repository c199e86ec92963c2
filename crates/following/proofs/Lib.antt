-- From a fresh table, through every run of accepted steps, cells and bytes agree with the day, and what is settled with what box 0 shows of closed transactions.
pub mod Cells
pub mod Bytes
pub mod Follow
pub mod Shown
