-- Laws of own lists: each change is its writes in a row.
pub mod Writes
