pub mod Blocks
pub mod Lines
