pub mod Ends
pub mod Ahead
pub mod Walk
pub mod Driven
