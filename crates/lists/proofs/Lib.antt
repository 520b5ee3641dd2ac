-- The laws of the inverse list and of shifts, what is promised of legal lists, and what the proofs of this crate's functions do.
pub mod Inversion
mod Writing
pub mod Shifting
pub mod LegalLists
