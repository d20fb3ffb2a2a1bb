pub mod Assigned
pub mod Indexed
pub mod Marked
pub mod Named
pub mod Triggers
