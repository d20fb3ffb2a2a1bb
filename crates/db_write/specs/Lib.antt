pub mod Turning
pub mod Reading
pub mod Changing
pub mod Kept
pub mod OneRow
