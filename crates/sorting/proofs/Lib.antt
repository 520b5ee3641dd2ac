-- What the proofs of the sorts do.
mod Monotone
mod Ranks
mod Digits
mod Passes
mod Inserting
mod Indexing
