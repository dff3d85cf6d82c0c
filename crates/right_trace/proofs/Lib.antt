pub mod Copying
pub mod Deriving
pub mod Asked
pub mod Valid
pub mod Said
pub mod Lessening
