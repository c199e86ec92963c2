-- What the checks of a preview find.
pub mod Checks
