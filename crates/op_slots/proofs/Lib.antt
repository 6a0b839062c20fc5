pub mod Pages
pub mod Places
pub mod Entries
pub mod Laid
pub mod Kept
pub mod Inserting
pub mod Removing
pub mod Lent
