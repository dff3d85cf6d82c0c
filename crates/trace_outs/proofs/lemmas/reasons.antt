pub mod Telling
pub mod Beginning
pub mod Streams
pub mod Shutting
