pub mod Durations
pub mod Among
pub mod Giving
pub mod Finding
pub mod Numbering
pub mod Failing
