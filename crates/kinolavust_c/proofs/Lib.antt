mod Boxed
mod Splitting
mod Decoding
mod Numbering
mod Placing
mod Taking
