pub mod Ends
pub mod Front
pub mod Serving
pub mod Turns
