pub mod Configured
pub mod Searching
pub mod Causes
pub mod Outs
pub mod Streams
pub mod Marks
pub mod Judging
