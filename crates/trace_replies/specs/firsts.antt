pub mod Firsts
pub mod Failing
