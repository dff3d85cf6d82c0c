pub mod questions
pub mod exchanges
pub mod due
pub mod pass
pub mod events
pub mod causes
