pub mod Signed
pub mod Room
pub mod Turns
pub mod Refusals
