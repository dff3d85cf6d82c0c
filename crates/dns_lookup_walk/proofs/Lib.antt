pub mod Doing
pub mod Zones
pub mod Tries
pub mod Hosts
pub mod Paths
pub mod Worked
