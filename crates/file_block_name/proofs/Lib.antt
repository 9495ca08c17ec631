pub mod Blocks
pub mod Wording
