-- What is known of a bundle before anything is written.
pub mod Bundles
