pub mod Entries
pub mod Read
pub mod Steps
