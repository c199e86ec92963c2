-- The theorem, and 01's example.
pub mod Agree
pub mod Example
