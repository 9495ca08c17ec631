pub mod Who
pub mod Report
