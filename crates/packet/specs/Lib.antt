pub mod Packet
pub mod Place
pub mod Replies
