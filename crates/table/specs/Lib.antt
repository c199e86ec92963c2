-- What each call answers with and leaves in the table: 01, "Codes of the desk", on bytes. And what the checks that the calls share find.
pub mod Out
pub mod Halves
pub mod Answers
pub mod Told
pub mod Calls
pub mod Found
pub mod Checks
pub mod Light
pub mod Served
pub mod Lent
pub mod Shared
pub mod Shows
