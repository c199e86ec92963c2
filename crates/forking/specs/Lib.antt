-- What the checks of a fork find.
pub mod Checks
