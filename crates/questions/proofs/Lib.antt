-- The laws of questions together.
pub mod Turning
pub mod Standings
pub mod Clearing
pub mod Fillings
pub mod Agreeing
pub mod Passing
pub mod LegalQuestions
