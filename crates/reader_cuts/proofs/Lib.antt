pub mod Laws
pub mod Firsts
pub mod Kept
pub mod Cuts
pub mod Agreement
pub mod Told
