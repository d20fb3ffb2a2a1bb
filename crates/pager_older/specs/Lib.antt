pub mod Counting
pub mod Older
