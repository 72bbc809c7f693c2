pub mod Packed
pub mod SourcePacked
pub mod Trials
