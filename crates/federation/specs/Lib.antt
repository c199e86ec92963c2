-- What the step of a call on four tables has to do, and what a call gives.
pub mod Out
pub mod Steps
