pub mod Cells
pub mod Payload
pub mod Node
pub mod Reading
pub mod Bytes
pub mod Laws
pub mod Checking
