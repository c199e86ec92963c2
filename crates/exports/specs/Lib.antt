-- What the exports of the calls on four tables return.
pub mod Four
