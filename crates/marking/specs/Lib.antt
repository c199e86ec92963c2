-- What the checks of a mark find.
pub mod Checks
