-- The laws of rows of checks.
pub mod Alike
pub mod Checks
