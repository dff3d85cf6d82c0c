pub mod Answering
pub mod Ended
pub mod Missing
pub mod Stopping
