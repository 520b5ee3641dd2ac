-- How large a list will be: at a degree, and the least degree at which it is small enough.
pub mod Sizing
pub mod Seeking
