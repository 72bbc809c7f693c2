pub mod FileLemmas
pub mod FootprintLemmas
pub mod WrittenLemmas
