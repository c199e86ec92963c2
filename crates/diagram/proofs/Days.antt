-- The day after every run of accepted steps: its diagram has a layout, and its transactions are whole.
pub mod Accepting
pub mod Moves
pub mod Found
pub mod Naming
pub mod Marking
pub mod Waiting
pub mod Real
pub mod Sound
pub mod Outside
pub mod Entry
pub mod Entering
pub mod Yielding
pub mod Forking
pub mod Joining
pub mod Dropping
