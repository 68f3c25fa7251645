pub mod Calls
pub mod Fillings
pub mod Pushing
