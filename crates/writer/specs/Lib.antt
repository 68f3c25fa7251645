pub mod Writer
pub mod Calls
pub mod Making
