pub mod Counts
pub mod Bounds
pub mod Cuts
pub mod Posts
pub mod Worked
