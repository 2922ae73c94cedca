pub mod StepLaws
pub mod BlockStepLaws
pub mod ElementLaws
pub mod ReportLaws
pub mod WayLaws
pub mod LineLaws
pub mod ValueLaws
pub mod StripLaws
