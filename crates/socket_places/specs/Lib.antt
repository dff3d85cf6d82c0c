pub mod Books
pub mod Lists
pub mod Once
pub mod Places
pub mod Table
pub mod Told
