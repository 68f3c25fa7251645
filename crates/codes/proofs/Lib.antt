pub mod Runs
pub mod Exactly
pub mod Each
pub mod Profile
pub mod Pushes
pub mod Kept
