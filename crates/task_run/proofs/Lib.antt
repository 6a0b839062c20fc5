pub mod Pipes
pub mod Results
