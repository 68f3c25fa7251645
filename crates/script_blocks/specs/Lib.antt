pub mod Lines
pub mod Blocks
