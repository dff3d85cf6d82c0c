pub mod promptness
pub mod owed
pub mod deferred
