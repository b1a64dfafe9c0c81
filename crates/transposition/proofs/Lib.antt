pub mod Packing
pub mod Xor
pub mod Examples
