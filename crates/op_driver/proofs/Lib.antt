pub mod Returned
pub mod Executed
