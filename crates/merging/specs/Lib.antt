-- Starts and cuts merged, and marks along them.
pub mod Merged
pub mod Marks
