-- Laws of a standing and of the walk back to it, and a query from what its checks find.
pub mod Along
pub mod Calls
pub mod Walks
