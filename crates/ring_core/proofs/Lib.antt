pub mod Targets
pub mod Counting
pub mod Keeping
pub mod Binding
pub mod Leading
pub mod Executed
pub mod Marked
pub mod Linking
