pub mod Firsts
pub mod Bases
