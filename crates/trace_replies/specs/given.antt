pub mod Coming
pub mod Asks
pub mod Earlier
