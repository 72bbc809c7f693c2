pub mod FileLemmas
pub mod MarkLemmas
pub mod PieceLemmas
pub mod RangeLemmas
pub mod WrittenLemmas
