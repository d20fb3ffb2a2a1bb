pub mod Bound
pub mod Greatest
pub mod Laws
