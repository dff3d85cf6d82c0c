pub mod Core
pub mod Sentences
pub mod Serving
pub mod Telling
pub mod Turns
