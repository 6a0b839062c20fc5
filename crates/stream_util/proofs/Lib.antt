pub mod Buffered
pub mod Completeness
pub mod Copies
pub mod Filled
pub mod Prefixes
pub mod Splices
