pub mod Term
pub mod Terms
pub mod Grammar
