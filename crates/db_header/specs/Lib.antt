pub mod Header
pub mod Reading
pub mod Writing
