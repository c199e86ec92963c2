-- The proofs, lowest first: the flags after each step; the machine follows every run.
pub mod Flags
pub mod Follow
