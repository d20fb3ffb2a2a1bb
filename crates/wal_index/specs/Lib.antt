pub mod Rows
pub mod Index
pub mod Lesser
pub mod Marks
