pub mod Returned
pub mod Uring
pub mod Legacy
pub mod Entered
