-- The laws of maximal runs, of folds and of split permutations that callers cite, and what the proofs of this crate's functions do.
pub mod Keeping
pub mod Tracing
pub mod Maximal
pub mod Folding
pub mod Spreading
pub mod Splitting
pub mod Fewest
mod Heads
mod Outcomes
