pub mod Turns
pub mod Letters
pub mod Worth
pub mod Complete
pub mod Sound
pub mod Ranges
