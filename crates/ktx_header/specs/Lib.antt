pub mod Chaining
pub mod Extents
pub mod Footprints
pub mod Levels
pub mod Orders
pub mod Words
