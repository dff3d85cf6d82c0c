pub mod Outs
pub mod loads
pub mod reasons
pub mod busy
