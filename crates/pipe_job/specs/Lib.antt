pub mod Awaits
pub mod Causes
pub mod Course
pub mod Moves
pub mod PipeJob
pub mod Rest
pub mod Steps
pub mod Waits
