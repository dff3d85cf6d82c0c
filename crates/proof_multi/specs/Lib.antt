pub mod Servers
pub mod Tied
