pub mod Counts
pub mod Wording
