pub mod Generating
pub mod InputLaws
pub mod Program
pub mod Query
pub mod QueryWords
pub mod Words
