pub mod Parts
pub mod Sound
pub mod Table
pub mod Runs
