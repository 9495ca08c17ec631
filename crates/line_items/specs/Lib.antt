pub mod Typed
pub mod Items
