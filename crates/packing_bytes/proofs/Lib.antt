pub mod Cells
pub mod Numbers
pub mod Walks
pub mod Order
pub mod Holding
pub mod Tests
pub mod Told
