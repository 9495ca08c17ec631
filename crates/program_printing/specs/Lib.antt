pub mod Page
pub mod Print
