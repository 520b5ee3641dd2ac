-- The answers that cross the boundary, and what each export promises.
pub mod Answers
