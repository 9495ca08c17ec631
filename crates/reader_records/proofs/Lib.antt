pub mod Shapes
pub mod Wording
