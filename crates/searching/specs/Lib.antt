-- What the parts of the searches ask and promise.
pub mod Parts
