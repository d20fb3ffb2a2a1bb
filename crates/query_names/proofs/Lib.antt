mod BindingRows
mod BoundChecks
pub mod BoundLists
pub mod CalmConditions
pub mod ColumnNames
pub mod ColumnPlaces
pub mod CreatedTables
mod FirstColumns
mod FormRows
pub mod InsertNames
mod KeyNames
pub mod KnownQueries
pub mod KnownTables
pub mod PartRefusals
pub mod PlainFlows
mod QueryRows
pub mod QuietNames
mod ResultRows
pub mod TableKeys
pub mod Trees
mod ViewRows
pub mod Written
mod Plain
mod DefinedColumns
mod DefinedRules
pub mod QuietValues
