pub mod Text
pub mod Laid
