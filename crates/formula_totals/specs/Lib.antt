pub mod Compare
pub mod Counters
pub mod Counting
pub mod Left
pub mod Wording
