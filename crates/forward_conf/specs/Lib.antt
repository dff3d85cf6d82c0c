pub mod Causes
pub mod Itself
pub mod Reading
pub mod Sentences
pub mod Settings
