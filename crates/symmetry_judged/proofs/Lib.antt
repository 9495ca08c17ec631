pub mod Read
pub mod Looked
pub mod Answers
