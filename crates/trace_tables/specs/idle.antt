pub mod Keepalive
pub mod Idle
