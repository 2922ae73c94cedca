pub mod Update
pub mod Fold
pub mod Search
pub mod Pieces
pub mod Area
