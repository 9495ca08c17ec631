pub mod Shown
pub mod Coming
pub mod Closing
