pub mod Amounts
pub mod Grammar
pub mod Reading
pub mod Totals
pub mod Compare
pub mod Wording
