-- Bytes that are 0, for this crate and the one that makes a table fresh.
pub mod Zeros
