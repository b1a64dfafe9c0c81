pub mod LittleEndian
pub mod Places
