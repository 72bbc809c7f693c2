pub mod BufferLemmas
pub mod FaultsLemmas
pub mod FilesLemmas
pub mod GrowingLemmas
pub mod LogLemmas
pub mod PieceLemmas
pub mod StopLemmas
pub mod TakingLemmas
