pub mod Walks
pub mod Ends
pub mod Aheads
pub mod Stands
pub mod Known
pub mod Pieces
pub mod Cut
pub mod Inputs
