pub mod Calls
pub mod Gather
pub mod Work
pub mod Owning
pub mod WorkTable
pub mod Logged
pub mod Entered
pub mod Camps
