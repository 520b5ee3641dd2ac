-- The laws that callers cite, and what the proofs of this crate's functions do.
pub mod Sums
pub mod Legality
mod Checking
mod Sharing
pub mod Ranking
mod Sweeping
pub mod Accepted
pub mod Intervals
pub mod Bijection
pub mod Walks
pub mod Tiling
pub mod Sequences
pub mod WritesList
