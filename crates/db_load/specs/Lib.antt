pub mod Loading
pub mod Reading
pub mod Uses
