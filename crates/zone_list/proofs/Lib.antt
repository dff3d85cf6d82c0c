pub mod Lines
pub mod Lists
pub mod Primaries
pub mod Reading
pub mod Worked
