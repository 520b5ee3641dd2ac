-- The inverse on any tables.
pub mod Inverse
pub mod Parts
