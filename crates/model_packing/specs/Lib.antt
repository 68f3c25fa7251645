pub mod Pieces
pub mod Proposals
pub mod FirstCome
pub mod Carrying
pub mod Promises
