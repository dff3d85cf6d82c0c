pub mod Histories
pub mod Counting
