-- What a reader has to believe of the desk: the calls, what they answer with, and 01's table of codes. It knows no day and no table.
pub mod Calls
pub mod Checks
pub mod Listed
