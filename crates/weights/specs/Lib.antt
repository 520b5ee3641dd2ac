-- The starts under an image, on any tables.
pub mod Under
pub mod Parts
