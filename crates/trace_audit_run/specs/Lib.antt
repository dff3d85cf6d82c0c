pub mod Lines
pub mod Words
pub mod Missed
pub mod Stops
pub mod Sentences
pub mod Program
pub mod Ends
pub mod missing_line
