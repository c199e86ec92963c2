-- The flags that a table keeps instead of the diagram: who may be joined, and which client has caught up.
pub mod Terminals
pub mod Joinable
