pub mod Seeking
pub mod Searching
pub mod Keys
pub mod Ranges
pub mod Asking
