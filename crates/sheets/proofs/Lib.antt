-- Laws that belong to no one function: one line more, and a line as a record of a bundle; and examples.
pub mod Written
mod Examples
