pub mod Exchanged
pub mod Owed
