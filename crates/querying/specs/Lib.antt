-- What the checks of a query find, and what a walk back still has in front of it.
pub mod Checks
pub mod Left
