pub mod Sets
pub mod Lines
