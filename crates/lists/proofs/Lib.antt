-- Laws of the words for lists, of rows, and of answers that a test picks, each said once, over variables.
pub mod Cases
pub mod Changed
pub mod Sublists
pub mod Places
pub mod Blocks
pub mod Keep
pub mod Counts
pub mod Grown
pub mod Sums
pub mod Replaced
pub mod Rows
pub mod Told
pub mod Renamed
pub mod Names
pub mod Differences
