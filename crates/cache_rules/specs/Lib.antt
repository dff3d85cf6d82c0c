pub mod Key
pub mod Validity
pub mod Viewing
pub mod Laws
