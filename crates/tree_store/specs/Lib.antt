pub mod Sides
pub mod Frames
pub mod Saying
pub mod Staying
pub mod Storing
pub mod Steps
