pub mod Clock
pub mod Edge
pub mod ListEdge
pub mod Waiting
