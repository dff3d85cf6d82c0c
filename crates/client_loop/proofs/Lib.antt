pub mod Deeds
pub mod Rows
pub mod Turning
pub mod BothTurning
pub mod AllReplies
pub mod AllTurning
