-- Laws that serve several proofs: the checks of a client number and of a name.
pub mod Numbers
