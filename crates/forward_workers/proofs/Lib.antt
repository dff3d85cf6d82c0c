pub mod Deeds
pub mod Workings
pub mod Firsts
pub mod Sharings
pub mod Serveds
mod Worked
