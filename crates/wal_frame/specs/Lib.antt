pub mod Sums
pub mod Log
pub mod Accepted
pub mod Progress
pub mod Written
pub mod Appended
