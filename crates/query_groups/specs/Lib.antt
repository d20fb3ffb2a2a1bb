pub mod Groups
pub mod Giving
pub mod Keeping
