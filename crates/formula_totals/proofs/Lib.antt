pub mod Counters
pub mod WordCases
pub mod Cases
pub mod Rooms
pub mod Adding
pub mod Comparing
pub mod Words
pub mod Vectors
