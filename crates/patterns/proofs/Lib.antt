pub mod Tests
pub mod Table
pub mod Runs
pub mod Words
