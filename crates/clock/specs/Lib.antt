pub mod Answers
pub mod Refusals
pub mod Ticks
pub mod Promises
pub mod Lines
