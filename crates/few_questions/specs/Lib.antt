-- What is promised of few questions.
pub mod Few
