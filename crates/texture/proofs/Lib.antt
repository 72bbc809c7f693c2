pub mod PlaceLaws
pub mod RowLaws
pub mod ShapeLaws
pub mod WalkLaws
