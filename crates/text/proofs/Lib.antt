-- Laws of text put behind text, and of a number's digits; and examples.
pub mod Places
pub mod Digits
pub mod Examples
