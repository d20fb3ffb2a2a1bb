pub mod IndexReading
pub mod TableReading
