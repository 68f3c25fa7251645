pub mod Lines
pub mod Links
