-- Words for lists of numbers. Knows no revision, no client and no bytes.
pub mod Lists
pub mod Arranged
pub mod Pool
pub mod Sums
pub mod Letters
pub mod Names
pub mod Differences
