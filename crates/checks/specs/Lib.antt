-- The answer of each check.
pub mod Answers
