pub mod Stub
pub mod Queries
pub mod Both
pub mod All
pub mod ErrorText
pub mod Making
