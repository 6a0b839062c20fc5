pub mod Consumed
pub mod Equal
pub mod Front
pub mod Overwritten
pub mod Places
pub mod Rooms
pub mod Slices
