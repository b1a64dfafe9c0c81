pub mod Fields
pub mod Sent
pub mod Step
