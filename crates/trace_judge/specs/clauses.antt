pub mod Clauses
pub mod Verdicts
pub mod Laws
