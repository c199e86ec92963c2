-- Laws of an update's checks and of its entry, and the call from what its checks find.
pub mod Checks
pub mod Stored
pub mod Calls
