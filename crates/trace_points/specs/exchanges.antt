pub mod Asked
pub mod Open
pub mod Coming
