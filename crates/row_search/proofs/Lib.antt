mod Batches
mod Ends
mod FoundRows
pub mod Gathered
mod Gathering
pub mod KeyRows
pub mod Keyed
pub mod LookedUp
mod Records
mod Searched
mod Sorted
mod Sought
mod Standing
pub mod Together
