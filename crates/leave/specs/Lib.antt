pub mod Cutoff
pub mod Finish
