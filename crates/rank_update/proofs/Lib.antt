pub mod Sums
pub mod StripLaws
