pub mod Lines
pub mod Parks
