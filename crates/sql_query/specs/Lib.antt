pub mod ChangeReading
pub mod QueryReading
