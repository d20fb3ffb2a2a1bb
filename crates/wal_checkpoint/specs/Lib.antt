pub mod Shown
pub mod Emptied
pub mod Answers
