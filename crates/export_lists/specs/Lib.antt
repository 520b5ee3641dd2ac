-- The answers that cross the boundary, and what the export that writes promises.
pub mod Answers
pub mod Lent
