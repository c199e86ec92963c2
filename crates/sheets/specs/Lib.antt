-- What the crate's contracts say: a line of the listing in bytes, and a sheet with its lines.
pub mod Lines
pub mod Sheet
