pub mod Frames
pub mod KeptAll
pub mod KeptSteps
pub mod Naming
pub mod Pending
pub mod Reached
pub mod Runs
pub mod Waits
