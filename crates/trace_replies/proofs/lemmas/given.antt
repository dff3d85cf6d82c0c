pub mod Bringing
pub mod Asking
pub mod Keeping
pub mod Putting
