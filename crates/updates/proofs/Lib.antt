-- Laws that belong to no one function: what callers may use of the definitions, and 01's edges.
pub mod Laws
pub mod Edges
