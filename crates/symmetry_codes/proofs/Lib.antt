pub mod Search
pub mod Hinted
