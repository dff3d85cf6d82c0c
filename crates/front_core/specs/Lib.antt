pub mod Core
pub mod Forwarded
