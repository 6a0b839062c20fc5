pub mod Driven
pub mod Commands
mod RelayWords
mod TaskWords
mod KeptGroups
mod Refusals
mod Submitting
mod Canceling
mod Single
mod Steps
mod Running
mod Runs
pub mod Writing
pub mod Reading
mod Replying
mod Generating
mod Endings
pub mod Parts
mod Completing
mod Framing
mod Stopping
pub mod Tasking
mod Tracing
mod Relaying
