pub mod Asking
pub mod Opening
pub mod Finding
pub mod Telling
