pub mod Units
pub mod Wording
