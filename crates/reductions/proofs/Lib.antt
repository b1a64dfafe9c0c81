pub mod Pairs
pub mod Entries
pub mod Whole
pub mod Table
