-- The laws of the tests, on any tables and on those of a legal list.
pub mod Passing
pub mod Lengths
pub mod LegalShape
