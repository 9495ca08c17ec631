pub mod NameTable
pub mod Names
