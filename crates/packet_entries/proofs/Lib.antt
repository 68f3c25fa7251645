pub mod Entries
pub mod Holds
pub mod Walks
pub mod Measures
pub mod Placed
