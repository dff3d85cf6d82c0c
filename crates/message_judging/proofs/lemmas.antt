pub mod matching
pub mod validity
pub mod views
