pub mod ObjectReading
pub mod Parsing
pub mod Refusals
pub mod Spelled
pub mod StatementReading
