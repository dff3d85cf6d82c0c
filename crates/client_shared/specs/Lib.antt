pub mod Drawn
pub mod History
pub mod Lanes
pub mod Unjournaled
