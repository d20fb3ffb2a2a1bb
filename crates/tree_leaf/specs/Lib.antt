pub mod Leaf
pub mod Writing
