pub mod Asking
pub mod Laws
pub mod Recording
pub mod Sentences
