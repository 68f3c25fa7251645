pub mod Checks
pub mod Pushes
pub mod Fillings
pub mod Going
pub mod Calls
pub mod Pushed
pub mod Checked
