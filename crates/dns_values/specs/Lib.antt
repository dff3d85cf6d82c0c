pub mod Source
pub mod Sink
pub mod Address
pub mod StdEdge
pub mod ErrorText
pub mod NumberNames
pub mod NameTable
pub mod Decimal
