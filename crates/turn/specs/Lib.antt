pub mod Window
pub mod Prune
