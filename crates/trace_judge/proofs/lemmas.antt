pub mod script
pub mod clauses
