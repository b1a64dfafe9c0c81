pub mod Tests
pub mod Orders
pub mod Numbers
pub mod Given
pub mod Meaning
pub mod One
