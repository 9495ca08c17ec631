pub mod Threshold
pub mod Wording
