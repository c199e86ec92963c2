-- A sync from what its checks find.
pub mod Syncs
