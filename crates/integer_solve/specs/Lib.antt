pub mod Equations
pub mod Elimination
