pub mod Lexing
pub mod Reading
pub mod Lexed
pub mod Usual
