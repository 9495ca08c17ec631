pub mod Calls
pub mod Shaped
pub mod Sequences
pub mod Owner
pub mod Camps
