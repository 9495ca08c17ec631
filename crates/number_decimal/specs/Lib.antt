pub mod Digits
pub mod Grammar
pub mod Before
pub mod Reading
