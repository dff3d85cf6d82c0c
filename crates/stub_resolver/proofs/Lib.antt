pub mod Replying
pub mod Counting
pub mod Operating
pub mod BothReplying
pub mod AllReplying
