pub mod Numbers
pub mod PanelLaws
pub mod RunLaws
