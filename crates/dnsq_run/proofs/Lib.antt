pub mod Delivery
pub mod Inputs
pub mod Outcomes
pub mod Refusals
pub mod Queries
pub mod QueryEnds
pub mod Generations
pub mod ToldTexts
