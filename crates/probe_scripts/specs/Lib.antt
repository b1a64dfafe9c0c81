pub mod Clocks
pub mod Histories
pub mod Tables
