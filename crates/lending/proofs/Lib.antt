-- Laws of entries packed as records.
pub mod Packed
