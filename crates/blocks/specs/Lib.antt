-- A row of blocks, each with the list it begins with. Knows lists alone: no diagram, no day and no bytes.
pub mod Blocks
