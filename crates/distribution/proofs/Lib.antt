pub mod Outcomes
pub mod Rates
pub mod Reading
pub mod Trips
pub mod Given
pub mod Tests
pub mod Refused
