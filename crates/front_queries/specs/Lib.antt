pub mod Query
pub mod Spelled
pub mod Refusals
pub mod Requests
pub mod Answers
pub mod Simple
