-- The call from what its check finds.
pub mod Calls
