-- The proofs of the three demands, of what is foretold, and of lists that are folded first.
mod Counting
mod Serving
mod Marking
mod Through
pub mod Demand1
pub mod Demand2
pub mod Demand3
pub mod Foretelling
pub mod FoldDemand
pub mod FoldedFirst
