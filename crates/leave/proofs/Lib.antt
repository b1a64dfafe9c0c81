pub mod Credits
pub mod Positive
