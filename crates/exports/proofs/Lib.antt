-- Laws of the packed answers.
pub mod Returned
pub mod Four
