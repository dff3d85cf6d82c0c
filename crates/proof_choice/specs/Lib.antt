pub mod Choosing
pub mod Doing
pub mod Requests
pub mod Servers
pub mod Silent
pub mod Awaiting
pub mod Whole
