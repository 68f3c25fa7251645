pub mod Answers
pub mod Outcomes
pub mod Pairs
pub mod Rates
