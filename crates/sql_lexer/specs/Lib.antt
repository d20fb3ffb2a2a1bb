pub mod Bytes
pub mod Cut
pub mod Lex
pub mod Spans
pub mod Words
