pub mod Finding
pub mod Keep
pub mod Again
pub mod Others
pub mod Cleared
pub mod Size
pub mod Balance
pub mod Examples
