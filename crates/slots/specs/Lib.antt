pub mod Slot
pub mod Walk
pub mod Row
pub mod Steps
