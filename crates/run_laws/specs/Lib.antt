pub mod Moments
pub mod Headline
pub mod Closes
pub mod Groups
pub mod Transfers
pub mod Files
pub mod Bytes
pub mod Waits
