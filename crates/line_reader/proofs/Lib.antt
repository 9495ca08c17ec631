pub mod Splits
pub mod Wording
pub mod Entries
