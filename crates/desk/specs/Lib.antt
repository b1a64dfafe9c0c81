pub mod NodeEntry
pub mod RootEntry
pub mod Told
