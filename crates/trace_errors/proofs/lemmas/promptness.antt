pub mod Settling
pub mod Hearing
pub mod Delaying
pub mod Prompting
