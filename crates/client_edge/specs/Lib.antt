pub mod Address
pub mod Answer
pub mod RandWords
pub mod SocketEdge
