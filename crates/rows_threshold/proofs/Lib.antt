pub mod Wording
pub mod AsBefore
