pub mod AmongPlain
pub mod Halves
pub mod Numbers
pub mod Parts
