-- The file of a run list: its words, its tests in their order, and which files are right.
pub mod Words
pub mod File
pub mod Right
pub mod Parts
