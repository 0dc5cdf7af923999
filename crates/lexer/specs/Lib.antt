pub mod Kinds
pub mod Tokens
pub mod Lexes
pub mod Answers
pub mod Classes
pub mod Scans
