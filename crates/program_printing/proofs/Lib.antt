pub mod Pages
pub mod Digits
pub mod RowNames
pub mod Prints
pub mod Lent
pub mod Samples
