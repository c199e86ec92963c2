-- Laws of the calls that a board is lent to.
pub mod Calls
pub mod Sends
