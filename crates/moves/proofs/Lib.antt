pub mod Ordered
pub mod Kids
