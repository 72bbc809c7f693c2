pub mod EntryLaws
pub mod ShapeLaws
pub mod SpanLaws
pub mod WalkLaws
