pub mod Float
pub mod Fnv
pub mod Line
