pub mod Table
pub mod Orders
pub mod Fires
pub mod Missing
pub mod Examples
