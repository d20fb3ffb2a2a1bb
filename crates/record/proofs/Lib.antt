pub mod VarintLemmas
pub mod ColumnLemmas
pub mod RecordLemmas
pub mod InPlace
pub mod WritingLemmas
pub mod ShortestLemmas
pub mod Vectors
pub mod RowChecks
