pub mod Judged
pub mod Keeps
