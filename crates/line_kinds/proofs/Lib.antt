pub mod Passes
pub mod Fits
pub mod Fitting
pub mod Wording
