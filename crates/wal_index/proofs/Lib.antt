pub mod Lists
pub mod Rooms
pub mod HasFrames
pub mod Sixteen
