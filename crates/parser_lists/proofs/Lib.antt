pub mod Placed
pub mod Lists
pub mod Asked
pub mod Fields
