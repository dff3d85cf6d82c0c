pub mod Upstream
pub mod Client
pub mod Machines
pub mod Whole
pub mod Headline
