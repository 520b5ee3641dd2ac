-- The theory of cuts, and the list after cuts as the code has it.
pub mod Refine
pub mod Cut
pub mod Weights
pub mod Balancing
pub mod Certain
pub mod Swept
pub mod Sweeping
pub mod Cutlist
pub mod Ahead
pub mod Looking
pub mod Progress
pub mod Light
pub mod Turns
