pub mod Turns
pub mod Replies
pub mod All
pub mod Asking
pub mod Both
