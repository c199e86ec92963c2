-- A preview from what its checks find, and its end on the joined copy.
pub mod Foreseen
