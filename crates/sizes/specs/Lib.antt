-- The range checks of a revision and of a client number.
pub mod Numbers
