pub mod Apart
pub mod Turns
