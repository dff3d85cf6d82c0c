pub mod Keeping
pub mod Plain
pub mod Forms
pub mod Serving
