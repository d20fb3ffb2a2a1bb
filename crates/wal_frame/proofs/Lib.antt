pub mod Carrying
pub mod Fronts
pub mod Reading
pub mod Laws
