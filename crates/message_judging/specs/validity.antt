pub mod Sizes
pub mod Validity
