pub mod Backing
pub mod Waiting
pub mod Opening
pub mod Serving
pub mod Deciding
