pub mod Values
pub mod Sums
pub mod StripLaws
