pub mod Slot
pub mod Stats
pub mod Table
pub mod Calls
