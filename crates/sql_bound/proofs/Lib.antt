mod BoundRows
pub mod ParameterNames
pub mod TreeLists
pub mod Unbound
pub mod WithValues
