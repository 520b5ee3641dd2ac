-- What the tests come to, what is written, and what stands at the head of the tables afterwards.
pub mod Outcomes
pub mod Copying
pub mod Writing
pub mod Heads
