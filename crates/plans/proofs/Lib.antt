-- What the tests come to, and the search for a degree.
pub mod Outcomes
pub mod Clearing
pub mod Fitted
