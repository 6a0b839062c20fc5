pub mod Kept
pub mod Met
pub mod OpJob
pub mod Runs
pub mod Waits
