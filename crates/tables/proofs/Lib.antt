pub mod Laws
pub mod Suffix
pub mod Entries
pub mod Left
pub mod Numbered
