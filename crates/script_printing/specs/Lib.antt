pub mod CanBeTold
pub mod Laws
pub mod Texts
