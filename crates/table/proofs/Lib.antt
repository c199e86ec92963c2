-- Laws of the two halves of the table, of the answers of the shared checks, of those taken apart, of joins and syncs that are taken, of the board's step, and of a shared log.
pub mod Halves
pub mod Checks
pub mod Buffer
pub mod Calls
pub mod Told
pub mod Syncs
pub mod Light
pub mod Brings
pub mod Shared
