pub mod Count
pub mod Division
pub mod Shares
pub mod Answers
pub mod Examples
