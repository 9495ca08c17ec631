pub mod Value
pub mod Wording
