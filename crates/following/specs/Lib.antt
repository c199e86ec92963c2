-- A table that is made fresh agrees with the plain day of revisions, through accepted steps: cells and bytes.
pub mod Reached
pub mod Follow
pub mod Numbers
