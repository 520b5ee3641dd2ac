-- What the calls come to, by their plans.
pub mod Outcomes
