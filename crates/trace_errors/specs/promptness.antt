pub mod Settings
pub mod Heard
pub mod Overdue
pub mod Prompt
