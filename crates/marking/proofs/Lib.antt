-- A law of the checks of marks, and a mark from what its checks find.
pub mod Checks
pub mod Calls
