pub mod Plain
pub mod Sockets
