pub mod AsBefore
