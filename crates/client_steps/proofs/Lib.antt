pub mod Events
pub mod Fuel
pub mod Tables
pub mod TimerLaws
