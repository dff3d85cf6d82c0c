pub mod Standing
pub mod Alike
pub mod Acting
pub mod Meeting
pub mod Running
