pub mod Walks
pub mod Fuel
