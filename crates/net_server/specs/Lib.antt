pub mod Serving
pub mod NetJob
pub mod Closing
pub mod Server
