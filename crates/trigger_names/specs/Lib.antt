pub mod Programs
pub mod Resolved
