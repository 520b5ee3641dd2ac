-- The laws that callers cite.
pub mod Marks
pub mod Distances
