pub mod Doors
pub mod Working
pub mod Turning
pub mod Sharing
pub mod Served
