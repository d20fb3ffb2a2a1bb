pub mod Chains
pub mod Calls
pub mod Links
pub mod Writing
pub mod Freeing
