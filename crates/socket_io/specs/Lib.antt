pub mod System
pub mod Counted
pub mod SocketTable
pub mod Polled
pub mod Waits
pub mod MioIo
