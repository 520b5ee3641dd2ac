-- The listing of a file, and what the parts of `list_file` ask and promise.
pub mod Listing
pub mod Parts
