pub mod Sound
pub mod Wording
