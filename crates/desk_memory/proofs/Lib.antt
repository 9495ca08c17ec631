pub mod Parts
pub mod Slots
pub mod Eachs
pub mod Desks
pub mod Whole
pub mod Gets
