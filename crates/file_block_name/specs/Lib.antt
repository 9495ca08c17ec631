pub mod Block
pub mod Wording
