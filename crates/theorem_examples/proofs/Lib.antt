pub mod Hold
pub mod Formulas
pub mod KindLetters
