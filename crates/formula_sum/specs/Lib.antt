pub mod Recognised
pub mod Sum
