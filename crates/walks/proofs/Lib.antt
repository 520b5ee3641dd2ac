-- The laws of the walks.
pub mod Reached
pub mod StartsRead
pub mod Steps
pub mod Moves
pub mod Distances
pub mod Finding
pub mod Linked
pub mod PlainMoves
pub mod LegalCounts
pub mod LegalTables
