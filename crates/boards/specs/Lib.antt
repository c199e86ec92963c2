-- What a reader has to believe of the board: its bytes, an update applied to it, and what a list of updates leaves.
pub mod Board
pub mod Posted
