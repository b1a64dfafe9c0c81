pub mod Cases
pub mod Wrapping
pub mod Bits
pub mod Diff
pub mod Order
pub mod Range
