pub mod Laws
pub mod Answering
pub mod Kept
pub mod Examples
