pub mod EachTally
pub mod Kept
pub mod Taken
