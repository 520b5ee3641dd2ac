-- Laws of lists of tests, of searches and of degrees.
pub mod Judging
pub mod Searches
pub mod Searching
pub mod Degrees
pub mod Refusing
