-- Laws of a bundle's entries, of records that hold their entries, and of room filled record by record; and examples.
pub mod First
pub mod Held
pub mod Filled
mod Examples
