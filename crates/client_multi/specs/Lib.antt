pub mod DgramStream
pub mod Fallback
pub mod Links
pub mod MultiStream
pub mod Retry
