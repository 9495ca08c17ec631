pub mod Follow
pub mod Agree
pub mod Sounds
pub mod Answers
pub mod Lent
pub mod Runs
pub mod Vectors
