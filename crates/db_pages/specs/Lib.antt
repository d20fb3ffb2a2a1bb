pub mod Language
pub mod Reordering
pub mod Schema
pub mod Standing
pub mod Stored
