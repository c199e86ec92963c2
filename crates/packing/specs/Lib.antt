-- The answers of the calls as numbers, for C and Rust.
pub mod Packed
