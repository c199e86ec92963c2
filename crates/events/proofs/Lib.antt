-- Laws that belong to no one function: each step is its writes in a row.
pub mod Writes
