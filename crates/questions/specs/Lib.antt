-- The definitions of questions together, in reading order.
pub mod Questions
pub mod Agree
pub mod Plain
pub mod Turns
