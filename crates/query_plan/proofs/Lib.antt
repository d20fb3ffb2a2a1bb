pub mod Asked
pub mod KeyRows
pub mod KeyedRows
pub mod Most
pub mod Others
pub mod Parts
mod RangeRows
pub mod RangedRows
pub mod RowidEnds
pub mod Unfound
pub mod Untrue
pub mod Words
