pub mod Slab
pub mod Part
