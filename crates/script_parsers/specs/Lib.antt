pub mod Lines
pub mod Parsers
