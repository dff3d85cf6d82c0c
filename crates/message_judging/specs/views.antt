pub mod Same
pub mod Serving
