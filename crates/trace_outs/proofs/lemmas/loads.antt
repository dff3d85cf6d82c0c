pub mod Placing
pub mod Wanting
pub mod Balancing
pub mod Meeting
pub mod Holding
pub mod Admitting
