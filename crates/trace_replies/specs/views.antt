pub mod Among
pub mod Serving
pub mod Telling
pub mod Errors
