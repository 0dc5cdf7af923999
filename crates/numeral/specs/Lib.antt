pub mod Spelling
pub mod Numeral
pub mod Entry
pub mod Parser
