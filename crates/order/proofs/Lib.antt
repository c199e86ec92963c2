-- Laws that serve several proofs: the revisions behind a place of the layout, entries put behind others, lists gathered along the links.
pub mod Behind
pub mod Counts
pub mod Laws
