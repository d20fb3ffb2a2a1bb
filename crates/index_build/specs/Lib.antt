pub mod Ranking
pub mod Checking
pub mod Calls
pub mod Making
pub mod Laws
