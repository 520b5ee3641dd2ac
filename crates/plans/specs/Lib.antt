-- What balancing, the forecast and the search for a degree share: their first tests, the working table, and the cuts.
pub mod Fitting
pub mod Working
pub mod Plan
pub mod Parts
