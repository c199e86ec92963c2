-- What the functions of an order say: a list put behind the first entries of a lent buffer, and a list gathered into one; how many updates own lists have.
pub mod Added
pub mod Chain
pub mod Counts
