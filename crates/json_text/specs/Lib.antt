pub mod Json
pub mod Copied
pub mod Writes
pub mod Names
