-- What the crate's contracts say, in 01's order: the kinds, their effects, several effects in a row; the absolute kinds; and 01's edges.
pub mod Kinds
pub mod Effect
pub mod Applied
pub mod Absolute
pub mod Edges
