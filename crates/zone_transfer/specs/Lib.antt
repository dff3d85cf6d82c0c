pub mod Requesting
pub mod Reading
pub mod Turning
pub mod Fetching
