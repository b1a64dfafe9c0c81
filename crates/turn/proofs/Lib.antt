pub mod Negated
