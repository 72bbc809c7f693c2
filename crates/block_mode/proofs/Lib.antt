pub mod ChangeLaws
pub mod ColourTables
pub mod LegalityLemmas
pub mod LevelLaws
pub mod ModeLaws
pub mod ModeLemmas
pub mod ShapeLaws
pub mod SizeLemmas
