mod Answering
mod Cutting
mod Ends
mod Putting
mod Reading
mod Running
mod Words
