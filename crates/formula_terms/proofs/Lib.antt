pub mod Counts
pub mod TermCases
pub mod Cuts
pub mod Wording
pub mod Steps
