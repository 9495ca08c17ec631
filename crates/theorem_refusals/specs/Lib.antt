pub mod Table
pub mod Line
pub mod KeyNumber
pub mod Key
pub mod Graded
pub mod Questions
pub mod File
