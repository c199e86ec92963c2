-- What a day file says: its header, its records. 01, "Day file and printed day".
pub mod File
pub mod Record
