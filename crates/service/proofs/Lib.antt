pub mod Parts
pub mod Services
pub mod Kept
