pub mod Sorts
pub mod Lays
pub mod Kept
pub mod Fits
pub mod Told
pub mod Packed
pub mod Examples
