pub mod Lines
pub mod Jobs
