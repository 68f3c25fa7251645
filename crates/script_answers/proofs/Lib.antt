pub mod Parts
pub mod Steps
pub mod Rows
pub mod Lent
