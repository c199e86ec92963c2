-- The pieces in which the code makes the larger steps.
pub mod Pieces
