-- What a call leaves of a lent board.
pub mod Brought
