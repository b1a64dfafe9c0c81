pub mod Searched
pub mod Starred
