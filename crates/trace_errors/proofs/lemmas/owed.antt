pub mod Exchanging
pub mod Owing
