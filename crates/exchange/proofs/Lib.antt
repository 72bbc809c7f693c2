pub mod ExportLaws
pub mod ImportLaws
