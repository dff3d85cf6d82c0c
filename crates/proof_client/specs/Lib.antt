pub mod Above
pub mod Fallbacks
pub mod Upstreams
pub mod Ties
