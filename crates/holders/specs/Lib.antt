-- Buckets of places, and what the searches that begin in them ask and promise.
pub mod Buckets
pub mod Parts
