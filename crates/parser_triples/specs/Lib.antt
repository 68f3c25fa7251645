pub mod Walk
pub mod Plan
