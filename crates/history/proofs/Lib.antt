pub mod Curve
pub mod Bounds
pub mod Change
pub mod Inside
pub mod Examples
