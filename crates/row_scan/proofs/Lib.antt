pub mod Calm
mod FitTrees
pub mod HeldRows
pub mod OwnValues
pub mod RowLemmas
pub mod RowOrder
pub mod Steps
mod SoughtRows
mod SourceRows
pub mod TreeAnswers
pub mod TreeOrder
