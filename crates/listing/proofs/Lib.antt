-- Laws of the end of a list, and a list and a fill from what their checks find.
pub mod Calls
pub mod Listed
