-- What a reader has to believe of the bill.
pub mod Bill
