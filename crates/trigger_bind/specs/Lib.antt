pub mod Choosing
pub mod Knowing
pub mod Needs
pub mod Programs
