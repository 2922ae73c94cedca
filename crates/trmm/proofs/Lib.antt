pub mod SumLaws
pub mod BlockLaws
pub mod ElementLaws
pub mod OrderLaws
pub mod StripLaws
