-- Diagrams by themselves: paths, values at vertices, what a vertex sees.
pub mod Paths
pub mod Tables
pub mod RootPaths
pub mod Events
pub mod Visible
