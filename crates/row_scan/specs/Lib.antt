pub mod Answers
pub mod Rows
pub mod Sources
pub mod Trees
