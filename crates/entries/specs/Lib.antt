-- What the crate's contracts say: the sizes, an entry as six bytes, the entries in a row of bytes, the standing of a bib, the numbers kept for it.
pub mod Sizes
pub mod Stored
pub mod Entries
pub mod Folded
pub mod Walked
