pub mod Pairs
pub mod Listing
