pub mod Ring
pub mod Tests
