pub mod Pick
pub mod Blocks
pub mod Layout
pub mod Fields
pub mod Level
pub mod Refusal
