pub mod Notes
pub mod Plain
pub mod Found
pub mod Practice
