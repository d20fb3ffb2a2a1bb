pub mod Bases
pub mod Chosen
pub mod Endings
pub mod Exact
pub mod Law
pub mod Lists
pub mod MarkChoice
pub mod Turns
