pub mod Keys
pub mod Stores
pub mod Cases
pub mod Calls
pub mod Refusals
