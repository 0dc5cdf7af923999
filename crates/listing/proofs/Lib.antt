pub mod Results
pub mod Determined
