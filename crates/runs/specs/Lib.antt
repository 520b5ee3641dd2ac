-- The definitions of a run list, in reading order.
pub mod Runs
pub mod Legal
pub mod Weight
pub mod Check
pub mod Written
pub mod Parts
