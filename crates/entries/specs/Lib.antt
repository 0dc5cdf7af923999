pub mod Numerals
pub mod Tokens
pub mod Numbers
pub mod Spelling
pub mod Lists
pub mod Hits
