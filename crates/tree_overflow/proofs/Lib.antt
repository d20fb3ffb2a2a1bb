pub mod ReadChains
pub mod ReadPayloads
pub mod Laying
pub mod LayingChains
pub mod WritePayloads
pub mod FreedChains
pub mod Staying
pub mod Growing
