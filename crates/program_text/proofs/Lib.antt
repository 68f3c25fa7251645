pub mod Layings
pub mod Decimals
