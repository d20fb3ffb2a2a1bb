pub mod Passing
pub mod Emptying
pub mod Joining
