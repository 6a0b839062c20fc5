pub mod ReadySession
pub mod Runs
pub mod Submission
