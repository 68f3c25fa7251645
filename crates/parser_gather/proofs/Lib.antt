pub mod Gathers
pub mod Pending
