pub mod HeaderBytes
pub mod Causing
pub mod TrunkBytes
pub mod Lists
pub mod Taken
pub mod Pigeonholes
pub mod Given
