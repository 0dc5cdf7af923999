pub mod Tables
pub mod TokenKinds
pub mod Suffix
pub mod Codes
pub mod Left
