-- Laws of what a good file is, and examples.
pub mod Good
pub mod Examples
