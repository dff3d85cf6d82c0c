pub mod Fits
pub mod Notes
