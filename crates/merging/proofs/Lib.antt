-- The laws of merged lists and of marks.
pub mod Merged
