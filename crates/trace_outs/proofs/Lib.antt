pub mod Judging
pub mod lemmas
