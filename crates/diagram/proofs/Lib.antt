-- The proofs, lowest first: graphs; the layout of revisions; the day; its arbitration order.
pub mod Graph
pub mod Arranged
pub mod Days
pub mod Order
mod Examples
