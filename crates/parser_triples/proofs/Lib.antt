pub mod Walks
pub mod Scans
pub mod Plans
pub mod Found
