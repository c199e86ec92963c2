-- What a reader has to believe of whole days: the record on paper, each call's answer, the claim about every
-- list of calls, and 02's U1, U4, U6, U8, U9, U10, U13 and U14. It is fed the calls' arguments alone.
pub mod Record
pub mod Answers
pub mod Edges
pub mod Taken
pub mod Bundles
pub mod Allowed
pub mod Values
pub mod Previews
pub mod Syncs
pub mod Marks
pub mod Orders
pub mod Boards
pub mod Fills
pub mod Bills
pub mod Told
pub mod LineUp
