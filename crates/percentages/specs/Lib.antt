pub mod Occupancy
pub mod Rate
