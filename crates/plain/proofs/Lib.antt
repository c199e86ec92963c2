-- The starred edges by computing, code 1, which does not arise, one line-up for every list of calls, previews, syncs, orders, own updates that add up, bills, and right boards.
pub mod Edges
pub mod Ends
pub mod Bundles
pub mod Steps
pub mod Exactly
pub mod Values
pub mod Previews
pub mod Syncs
pub mod Marks
pub mod Orders
pub mod Fills
pub mod Bills
pub mod LineUp
pub mod Follows
pub mod Boards
mod Announced
