pub mod WeightRows
pub mod Wording
