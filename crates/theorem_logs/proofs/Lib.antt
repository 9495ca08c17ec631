pub mod Back
pub mod Cut
pub mod Histories
pub mod Asked
