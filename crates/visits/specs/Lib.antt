pub mod Search
pub mod Reach
