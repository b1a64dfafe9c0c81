pub mod Order
pub mod Kid
