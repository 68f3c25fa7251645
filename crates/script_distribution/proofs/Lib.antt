pub mod Received
pub mod Written
