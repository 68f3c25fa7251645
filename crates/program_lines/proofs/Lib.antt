pub mod Tellings
pub mod Pieces
pub mod Examples
