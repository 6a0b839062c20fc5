pub mod Hosted
pub mod Opened
pub mod Left
