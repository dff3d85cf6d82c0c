pub mod Marks
pub mod Dgrams
pub mod Sends
pub mod Streams
pub mod Cache
pub mod Names
pub mod Places
pub mod Stale
