pub mod Spans
pub mod Written
pub mod Decodes
pub mod Encodes
pub mod Exact
pub mod Row
