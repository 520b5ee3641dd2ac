-- The inverse list, and what is promised of legal lists.
pub mod Inverse
pub mod LegalLists
