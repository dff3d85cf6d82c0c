pub mod Loads
pub mod Held
pub mod Opening
