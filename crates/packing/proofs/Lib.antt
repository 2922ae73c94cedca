pub mod FactorLaws
pub mod PackLaws
pub mod MirrorLaws
