-- From a fresh table, through every run of accepted steps, cells and bytes agree with the day; through every list of
-- calls the replies do, demand 3 holds, own updates add up, previews follow joins, syncs are joins and forks, bills are those of the history, and right boards stay right.
pub mod Table
pub mod Refusals
pub mod Stays
pub mod Demand
pub mod Fills
pub mod Previews
pub mod Syncs
pub mod Orders
pub mod Bills
pub mod Boards
mod Examples
