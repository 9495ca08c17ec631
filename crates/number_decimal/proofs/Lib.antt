pub mod Digits
pub mod Values
pub mod Complete
pub mod Sound
pub mod Agree
pub mod Small
pub mod AsBefore
pub mod Vectors
