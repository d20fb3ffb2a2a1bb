pub mod SchemaValues
pub mod ColumnNames
