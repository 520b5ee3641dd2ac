-- The laws that callers cite, and what the proofs of this crate's functions do.
pub mod Reading
pub mod Heading
pub mod Bodies
pub mod Accepted
