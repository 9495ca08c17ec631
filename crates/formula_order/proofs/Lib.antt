pub mod Orders
pub mod Wording
pub mod AsBefore
