pub mod Trip
pub mod Bounds
pub mod Sums
