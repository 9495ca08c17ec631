pub mod Lines
pub mod Saved
pub mod Sums
