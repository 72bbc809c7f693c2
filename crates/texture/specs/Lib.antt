pub mod Extents
pub mod Places
pub mod Positions
pub mod Rows
pub mod Shapes
pub mod Walks
