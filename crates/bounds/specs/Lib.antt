-- What the search for a first degree asks and promises, and then its parts.
pub mod Bound
pub mod Parts
