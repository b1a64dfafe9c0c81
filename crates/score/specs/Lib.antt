pub mod Wrap
pub mod Bits
