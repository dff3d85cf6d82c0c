pub mod Pieces
pub mod Standing
pub mod Choices
pub mod Layers
pub mod Told
pub mod Cuts
pub mod Worked
