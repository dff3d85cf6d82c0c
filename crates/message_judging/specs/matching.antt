pub mod Shapes
pub mod Matching
pub mod Laws
