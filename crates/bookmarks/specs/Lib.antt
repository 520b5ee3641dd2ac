-- The definitions of a bookmark and of its moves, in reading order.
pub mod Bookmark
pub mod Parts
