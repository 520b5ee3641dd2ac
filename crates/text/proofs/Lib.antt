-- The laws that callers cite, and what the proofs of this crate's functions do.
pub mod Writing
pub mod Digits
pub mod Signs
pub mod Lines
