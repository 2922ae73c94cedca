pub mod GridLaws
pub mod TakeLaws
pub mod TermLaws
pub mod StripLaws
pub mod TriangleLaws
