pub mod Table
pub mod Smallest
pub mod Lent
