pub mod Examples
pub mod Fuel
pub mod Equations
pub mod Greatest
