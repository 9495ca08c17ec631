pub mod Shapes
pub mod Follows
pub mod Gathered
pub mod Kept
pub mod Trips
pub mod Camps
