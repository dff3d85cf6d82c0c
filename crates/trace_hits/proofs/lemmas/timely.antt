pub mod Asked
pub mod Keeping
pub mod Rows
pub mod Longest
