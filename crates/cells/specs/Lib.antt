-- The lower 40,960 bytes of the table: as parts in a row, as cells, and what each step writes.
-- Knows revisions, clients and numbers of updates; nothing of what an update does.
pub mod Sizes
pub mod Tables
pub mod Parts
pub mod Words
pub mod Flags
pub mod Cells
pub mod Order
pub mod Decode
pub mod Range
pub mod Checks
pub mod CellSteps
pub mod Steps
pub mod Clean
