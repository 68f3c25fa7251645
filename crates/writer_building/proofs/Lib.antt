pub mod Sends
pub mod Builds
