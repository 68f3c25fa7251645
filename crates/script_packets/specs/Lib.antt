pub mod Lines
pub mod Packets
