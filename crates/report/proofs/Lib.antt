-- Laws of how long the printed day is, of one record further, of a fresh table, and of what a buffer is left with; and examples.
pub mod Bounds
pub mod Grown
pub mod Fresh
pub mod Shown
pub mod Examples
