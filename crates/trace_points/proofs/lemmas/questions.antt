pub mod Deciding
pub mod StreamDeciding
pub mod Finding
pub mod Numbers
pub mod Failing
pub mod Verdicts
pub mod Following
