pub mod Timing
pub mod Steps
pub mod Laws
