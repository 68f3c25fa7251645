pub mod Heads
pub mod Headers
