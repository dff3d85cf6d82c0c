pub mod Listing
pub mod Arriving
pub mod Telling
pub mod Failed
