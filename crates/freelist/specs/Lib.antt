pub mod Freelist
pub mod Calls
pub mod PageBytes
