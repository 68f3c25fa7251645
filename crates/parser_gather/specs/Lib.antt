pub mod Tests
pub mod Gather
