pub mod WeightCases
pub mod Wording
mod Weights
