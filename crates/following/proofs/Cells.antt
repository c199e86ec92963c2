-- The cells stand for the layout machine of the day, and so they answer as the day does.
pub mod Laid
pub mod Represents
pub mod Ordered
pub mod Entering
pub mod Forking
pub mod Leaving
pub mod Joining
pub mod Dropping
pub mod Settled
pub mod Closed
pub mod Kept
pub mod Brought
pub mod Answers
pub mod Passing
pub mod Numbers
