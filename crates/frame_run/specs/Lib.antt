pub mod Framing
pub mod Lines
pub mod MessageLine
pub mod Places
pub mod Reads
pub mod SinkPlace
pub mod Unframing
pub mod Writes
