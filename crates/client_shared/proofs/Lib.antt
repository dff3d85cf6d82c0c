pub mod Counting
pub mod Drawing
pub mod Histories
pub mod LaneSteps
