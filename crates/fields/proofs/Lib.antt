-- Laws that serve several proofs: range checks, flags.
pub mod InRange
pub mod FlagReads
