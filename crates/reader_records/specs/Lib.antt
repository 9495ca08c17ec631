pub mod Shape
pub mod Wording
