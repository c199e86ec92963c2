-- The proofs of the claims about four courses.
pub mod Shared
pub mod Told
pub mod Counts
pub mod Made
pub mod Codes
pub mod Assured
pub mod Days
pub mod Agree
pub mod Boards
pub mod Bundles
pub mod Light
