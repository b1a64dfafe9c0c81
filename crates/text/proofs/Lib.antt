pub mod Digits
pub mod Examples
pub mod Lines
pub mod Putting
