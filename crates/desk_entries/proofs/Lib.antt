pub mod Camps
pub mod Stores
pub mod Items
pub mod Sounds
