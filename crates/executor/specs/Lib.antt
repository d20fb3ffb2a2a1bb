pub mod Changing
pub mod Forms
pub mod Holding
pub mod Listing
pub mod Reading
pub mod Refusing
pub mod Rows
pub mod Works
