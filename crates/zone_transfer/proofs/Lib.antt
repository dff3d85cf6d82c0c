pub mod ReadOn
pub mod Boards
pub mod Sizes
pub mod Faults
pub mod Turns
pub mod Fetched
pub mod Ending
pub mod Sending
