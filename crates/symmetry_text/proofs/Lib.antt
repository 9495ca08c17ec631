pub mod Agree
pub mod Vectors
