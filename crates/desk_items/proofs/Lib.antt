pub mod Wording
pub mod Slots
