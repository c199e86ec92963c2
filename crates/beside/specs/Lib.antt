-- What the checks of a course's number and of the other three tables find, and what a call on four tables answers.
pub mod Number
pub mod Replies
pub mod Three
