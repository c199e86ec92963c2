-- Laws that belong to no one function: an entry read after a write, the board of some standings; and examples.
pub mod Entries
pub mod Posted
pub mod Examples
