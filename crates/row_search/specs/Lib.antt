pub mod Between
pub mod Finding
pub mod Found
pub mod Loading
pub mod Searching
