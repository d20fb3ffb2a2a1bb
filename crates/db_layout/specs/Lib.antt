pub mod Layout
pub mod Trees
