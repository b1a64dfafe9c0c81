pub mod Rows
pub mod First
