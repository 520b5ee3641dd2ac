-- The answers that cross the boundary.
pub mod Answers
