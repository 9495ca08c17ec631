pub mod Line
pub mod Wording
