pub mod Lines
pub mod Plays
pub mod Items
pub mod Room
pub mod Trip
