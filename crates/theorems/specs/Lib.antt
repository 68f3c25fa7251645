pub mod Items
pub mod Allowed
pub mod Writing
pub mod Reading
pub mod Trip
pub mod Count
pub mod Bounds
pub mod Sums
