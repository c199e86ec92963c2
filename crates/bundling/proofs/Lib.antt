-- Laws of updates sent one by one, and of a bundle.
pub mod Going
pub mod Fit
pub mod Sent
pub mod Records
pub mod Bundles
