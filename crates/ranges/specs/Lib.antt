-- The answer of the check.
pub mod Answers
