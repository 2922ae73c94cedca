pub mod Operations
pub mod Array
