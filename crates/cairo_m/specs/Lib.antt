pub mod Reading
pub mod Suffixes
pub mod Bases
