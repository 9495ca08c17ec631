pub mod Parts
pub mod Kepts
pub mod Feeds
