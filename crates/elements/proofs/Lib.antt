pub mod SumLaws
pub mod StrideLaws
