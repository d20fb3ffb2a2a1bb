pub mod Marks
pub mod Checks
pub mod Exact
pub mod Tails
pub mod Subtrees
pub mod Trunks
pub mod InOrder
pub mod IndexTrees
