pub mod GivesBack
pub mod History
pub mod Asked
