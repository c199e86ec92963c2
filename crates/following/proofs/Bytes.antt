-- The bytes keep the cells, and stay in range.
pub mod Stored
