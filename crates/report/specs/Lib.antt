-- What a day file prints as: 01, "Day file and printed day".
pub mod Run
pub mod Printed
