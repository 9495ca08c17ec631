pub mod Leaves
pub mod Sound
pub mod Complete
pub mod Agree
pub mod Bounds
pub mod Every
pub mod Totals
pub mod Vectors
