pub mod States
pub mod Transfers
