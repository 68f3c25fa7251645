pub mod Lays
pub mod Draws
pub mod Going
pub mod Frames
pub mod Packets
pub mod Fits
pub mod Rules
