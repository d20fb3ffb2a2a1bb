pub mod Calls
pub mod Counting
pub mod Laws
pub mod Map
pub mod Memory
