pub mod Loose
pub mod Invalid
pub mod Timers
pub mod Due
