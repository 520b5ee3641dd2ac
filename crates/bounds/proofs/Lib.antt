-- What the proofs of this crate's functions do: a total for each degree, the runs passed, and the degrees ruled out.
pub mod Totals
pub mod Passing
pub mod Ruling
