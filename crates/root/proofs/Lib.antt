pub mod Asked
pub mod Depths
pub mod Walks
pub mod Examples
