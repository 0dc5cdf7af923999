pub mod Seen
pub mod Determined
