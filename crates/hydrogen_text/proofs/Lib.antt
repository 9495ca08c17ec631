pub mod Digits
pub mod Words
pub mod Keys
pub mod Rows
pub mod Unique
pub mod Bytes
