-- Laws that serve several proofs: cells read and written in a part, names, gaps of the layout.
pub mod Lent
pub mod Moved
pub mod InPart
