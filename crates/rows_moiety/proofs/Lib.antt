pub mod RowCases
pub mod Words
