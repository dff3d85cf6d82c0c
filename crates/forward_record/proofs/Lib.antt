pub mod Steps
pub mod Turning
pub mod Done
pub mod Ends
pub mod Told
