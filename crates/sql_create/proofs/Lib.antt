pub mod ColumnLaws
pub mod IndexLaws
pub mod TableLaws
