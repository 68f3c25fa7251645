pub mod Fields
pub mod Entries
pub mod Extent
