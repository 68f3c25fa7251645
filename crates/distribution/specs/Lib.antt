pub mod Rates
pub mod States
pub mod Calls
pub mod Frames
