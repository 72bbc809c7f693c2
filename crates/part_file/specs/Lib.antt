pub mod Faults
pub mod Files
pub mod Fronts
pub mod Marks
pub mod Pieces
pub mod Ranges
pub mod Reading
