pub mod Bytes
pub mod Table
