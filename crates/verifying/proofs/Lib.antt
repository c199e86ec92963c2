-- What the checks find of the boxes out, one number after the other, and the call from what its checks find.
pub mod Stands
pub mod Calls
