pub mod Moves
pub mod Fronts
pub mod Nulls
