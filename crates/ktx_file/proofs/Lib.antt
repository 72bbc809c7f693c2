pub mod BlockLemmas
pub mod FormatLemmas
pub mod LevelLemmas
pub mod ReadingLemmas
pub mod WrittenLemmas
