pub mod PanelLaws
