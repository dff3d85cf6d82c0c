pub mod Asks
pub mod Numbers
pub mod Options
pub mod Setting
pub mod ShortAddress
pub mod Types
pub mod Words
pub mod Sentences
