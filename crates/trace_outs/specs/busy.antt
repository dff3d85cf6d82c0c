pub mod Backs
pub mod Waits
pub mod Taken
pub mod Busy
