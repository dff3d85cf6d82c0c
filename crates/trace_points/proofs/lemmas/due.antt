pub mod Waits
pub mod Keeping
pub mod ReadTimers
pub mod IdleTimers
