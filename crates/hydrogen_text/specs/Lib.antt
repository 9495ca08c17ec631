pub mod Hydrogens
pub mod NewText
