pub mod State
pub mod Consult
pub mod Accepted
