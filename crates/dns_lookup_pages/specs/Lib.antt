pub mod Queries
pub mod Lacking
