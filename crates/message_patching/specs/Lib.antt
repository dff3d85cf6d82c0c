pub mod Patching
pub mod TtlPlaces
pub mod Laws
