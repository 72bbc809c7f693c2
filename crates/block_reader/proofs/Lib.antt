pub mod ReadingLaws
pub mod ReadingLemmas
