pub mod Binding
pub mod Effects
pub mod Events
pub mod Laws
pub mod Triggers
