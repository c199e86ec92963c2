-- What lent bytes say: numbers of several bytes.
pub mod Numbers
