-- What the checks of an update find.
pub mod Checks
