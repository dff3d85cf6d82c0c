pub mod machine
pub mod examples
pub mod Theorem
