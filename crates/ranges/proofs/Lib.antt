-- A law that serves the loops.
pub mod Flags
