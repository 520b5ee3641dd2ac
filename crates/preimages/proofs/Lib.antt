-- The laws that callers cite, and what the proofs of this crate's functions do.
mod Sources
pub mod LegalPreimages
