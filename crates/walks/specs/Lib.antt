-- The definitions of the walks, in reading order.
pub mod Move
pub mod Linked
pub mod Plain
pub mod Parts
