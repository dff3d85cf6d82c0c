pub mod Delivery
pub mod Refusals
