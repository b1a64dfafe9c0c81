pub mod Captures
pub mod Reach
