pub mod Literals
pub mod Passing
pub mod Sides
