pub mod LevelLemmas
pub mod ReadingLemmas
