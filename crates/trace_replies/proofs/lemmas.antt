pub mod firsts
pub mod given
pub mod views
pub mod messages
