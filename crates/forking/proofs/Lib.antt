-- Laws of a fork's checks and of a cleared table, and the call from what its checks find.
pub mod Checks
pub mod Cleared
pub mod Calls
