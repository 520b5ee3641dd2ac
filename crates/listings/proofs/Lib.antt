-- The laws that the proofs of this crate cite, and those that callers do.
mod Lengths
mod Intervals
mod Rows
mod Answering
pub mod Listings
pub mod Longer
