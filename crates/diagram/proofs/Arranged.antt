-- The layout of the revisions that are out: one list holds all events in an order that every revision agrees with.
pub mod Advance
pub mod Built
