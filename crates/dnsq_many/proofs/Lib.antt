pub mod InOctets
pub mod Journals
pub mod Outcomes
pub mod Entries
pub mod Words
