pub mod Reductions
pub mod Rules
