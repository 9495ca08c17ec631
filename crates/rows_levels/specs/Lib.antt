pub mod Level
pub mod Bounds
