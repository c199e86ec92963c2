-- What a bundle says: its records, the entries they hold, and when it is wrong. 02, U4.
pub mod Records
pub mod Packed
