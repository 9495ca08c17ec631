pub mod Lines
pub mod Sheets
pub mod Desks
