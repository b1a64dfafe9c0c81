pub mod Searching
pub mod Starting
pub mod Unrefused
pub mod OneResult
