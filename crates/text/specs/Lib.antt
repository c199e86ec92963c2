-- What the crate's contracts say: text in a buffer, and numbers as text.
pub mod Placed
pub mod Decimal
