-- Laws that serve several proofs: bytes by their bits, rows of flags by value, rows as numbers, and rows changed where they lie.
pub mod Bytes
pub mod Digits
pub mod InPlace
pub mod Laws
