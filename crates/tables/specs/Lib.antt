-- The definitions of a move table, and of what is known once tests have passed.
pub mod Tables
pub mod Parts
