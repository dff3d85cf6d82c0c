pub mod Framing
pub mod Frames
pub mod Waiting
pub mod Ledger
pub mod Here
