pub mod Play
pub mod Lent
