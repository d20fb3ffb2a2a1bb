mod KeyRows
pub mod Parting
pub mod Escapes
pub mod Numbers
pub mod Parts
pub mod Standing
pub mod Prefixes
