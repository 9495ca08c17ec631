pub mod Right
pub mod Stages
