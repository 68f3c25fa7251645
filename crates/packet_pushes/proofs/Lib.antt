pub mod Pushed
pub mod Outcomes
