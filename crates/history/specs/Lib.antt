pub mod Gravity
pub mod Entries
