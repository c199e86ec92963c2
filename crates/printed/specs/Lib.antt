-- The printed day on paper, and the claim that the report prints it.
pub mod Paper
pub mod Example
