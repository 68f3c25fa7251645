pub mod Outcomes
pub mod Cuts
