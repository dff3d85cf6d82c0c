pub mod AskedOctets
pub mod ComingOctets
pub mod Replaying
pub mod Resting
pub mod Serving
