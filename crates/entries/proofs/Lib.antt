-- Laws that belong to no one function: an entry read after a write, a standing further numbers later, a walk back; and examples.
pub mod Stored
pub mod Entries
pub mod Folded
pub mod Walked
pub mod Examples
