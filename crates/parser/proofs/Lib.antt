pub mod Finish
pub mod Uncapped
