pub mod Again
pub mod HostKeys
pub mod HostTables
pub mod Counting
pub mod Drawing
pub mod Naming
pub mod OrderLaws
pub mod Searching
