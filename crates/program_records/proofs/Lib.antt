pub mod Moves
pub mod Readings
pub mod Cuts
pub mod Examples
