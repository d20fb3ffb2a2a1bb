pub mod Owned
pub mod Numbers
pub mod Replies
pub mod Slots
pub mod Values
