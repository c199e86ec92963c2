-- The table of calls follows the plain day.
pub mod Stands
pub mod Values
pub mod Rows
pub mod Calls
pub mod Bundles
pub mod Previews
pub mod Syncs
pub mod Orders
pub mod Bills
pub mod Follows
