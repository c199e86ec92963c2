-- What the check of a sheet finds.
pub mod Checks
