-- What is claimed of whole days.
-- A table that is made fresh agrees with the plain day: of revisions, through accepted steps; and of calls, whatever is called.
pub mod Table
pub mod Refusals
pub mod Stays
pub mod Demand
pub mod Edges
pub mod Fills
pub mod Previews
pub mod Syncs
pub mod Orders
pub mod Bills
pub mod Boards
