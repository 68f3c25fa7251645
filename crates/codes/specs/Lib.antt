pub mod Payloads
pub mod Pushed
