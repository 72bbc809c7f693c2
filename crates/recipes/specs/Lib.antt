pub mod Entries
pub mod Shapes
pub mod Spans
