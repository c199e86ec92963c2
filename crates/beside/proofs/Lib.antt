-- Laws of what the checks of a course's number and of the other three tables find.
pub mod Beside
pub mod Numbers
