pub mod Switching
pub mod Searching
pub mod Starred
