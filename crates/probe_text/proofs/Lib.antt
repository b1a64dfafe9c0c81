pub mod Floats
pub mod Halving
pub mod Lines
pub mod Numbers
