pub mod Tables
pub mod Listing
pub mod Knowing
pub mod Asking
pub mod Sending
pub mod Keeping
pub mod lemmas
