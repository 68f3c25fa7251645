pub mod Records
pub mod Rows
