pub mod Calls
pub mod File
pub mod StoredVersion
pub mod Picked
pub mod Replay
pub mod Memory
pub mod Landing
pub mod Schedule
