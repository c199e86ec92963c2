-- Laws of a number and its bytes, and of bytes copied.
pub mod Widths
pub mod Copied
