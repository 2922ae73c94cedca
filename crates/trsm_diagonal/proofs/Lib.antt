pub mod OrderLaws
pub mod StateLaws
pub mod FactorLaws
pub mod BlockLaws
pub mod AcrossLaws
pub mod ZeroLaws
