pub mod Bytes
pub mod Patterns
