pub mod Places
pub mod Weights
pub mod Tables
