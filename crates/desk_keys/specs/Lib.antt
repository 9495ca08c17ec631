pub mod Key
pub mod Lent
