pub mod Frames
pub mod Closes
