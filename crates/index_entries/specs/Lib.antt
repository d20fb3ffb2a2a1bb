pub mod Entries
pub mod Keeping
pub mod Taking
pub mod Coming
pub mod Replacing
pub mod Laws
pub mod Alone
pub mod Others
