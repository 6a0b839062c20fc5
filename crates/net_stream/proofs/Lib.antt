pub mod Requests
pub mod Frames
pub mod Told
pub mod Went
pub mod Handles
pub mod Accepts
pub mod Executions
