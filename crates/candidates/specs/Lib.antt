pub mod Axes
pub mod LevelColours
pub mod NearestPlaces
pub mod PartBounds
pub mod Pieces
pub mod PointValues
pub mod Sides
pub mod Walks
