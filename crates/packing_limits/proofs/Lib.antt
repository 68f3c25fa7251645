pub mod Entries
pub mod Sums
pub mod Along
pub mod Fives
pub mod Tabled
pub mod Joining
pub mod Limits
