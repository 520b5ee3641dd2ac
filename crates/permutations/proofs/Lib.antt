-- What is promised of all small lists; and under it the order of permutations, their arrangements, the next one, and what the proofs
-- of this crate's functions do.
mod Ordering
mod Arrangements
mod Ascents
mod Successors
mod Chain
mod Members
mod Permutations
mod Outcomes
mod Placing
mod Changing
mod Writing
mod OneCall
mod Calls
pub mod Every
