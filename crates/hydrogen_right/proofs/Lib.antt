pub mod Levels
pub mod Typed
pub mod Weights
pub mod Wording
pub mod Starts
pub mod Closed
