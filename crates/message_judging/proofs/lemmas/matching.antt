pub mod Names
pub mod Shaping
pub mod Copies
pub mod Requests
pub mod Answers
