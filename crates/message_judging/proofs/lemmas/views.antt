pub mod Sameness
pub mod Viewing
