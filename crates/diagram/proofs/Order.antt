-- Every run of accepted steps: one arbitration order, a witness, a diagram of Definition 6, own updates that add up, numbers by 02, U7, and marks
-- by U9; and that a step is accepted exactly if the rules and limits allow it.
pub mod Numbered
pub mod Inherited
pub mod Growth
pub mod Runs
pub mod Counted
pub mod Since
pub mod History
pub mod Theorem
pub mod Constructed
pub mod Rules
pub mod Single
pub mod Reuse
pub mod Aside
pub mod Witness
pub mod Gone
pub mod Latest
pub mod Lawful
pub mod Decided
pub mod Marked
pub mod Closed
