-- The plain walk, the calls served by tables, the three demands, what they are to say of folds, what a fold and then balancing come to, and the known keys.
pub mod Judged
pub mod Calls
pub mod PlainWalk
pub mod Served
pub mod Demands
pub mod FoldDemand
pub mod FoldedFirst
pub mod Keys
pub mod FoldKeys
