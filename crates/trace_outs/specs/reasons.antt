pub mod Point
pub mod Starting
pub mod Closing
