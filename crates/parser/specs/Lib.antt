pub mod Means
pub mod Valid
pub mod Calls
pub mod Items
pub mod After
pub mod Tests
pub mod Push
