pub mod Waiting
pub mod Timely
pub mod Longest
