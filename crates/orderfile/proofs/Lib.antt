-- Laws of an order as a file: its numbers, their places, lists that stand in it in order, and that the test is `Fits`.
pub mod Numbers
pub mod Complete
pub mod Placed
pub mod Rises
pub mod Found
pub mod Exactly
pub mod Examples
