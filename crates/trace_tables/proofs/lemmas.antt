pub mod frames
pub mod writes
pub mod timers
pub mod idle
pub mod sets
