pub mod Holds
pub mod Replies
pub mod Measures
pub mod Placed
pub mod Keeps
pub mod Refusals
pub mod Tidy
pub mod Services
