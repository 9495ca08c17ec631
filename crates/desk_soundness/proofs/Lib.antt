pub mod Everys
pub mod Wording
pub mod LogWording
pub mod Turns
pub mod Counts
pub mod Memories
