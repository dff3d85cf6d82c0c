pub mod Feeding
pub mod Knowing
pub mod Writing
pub mod Keeping
pub mod Opening
