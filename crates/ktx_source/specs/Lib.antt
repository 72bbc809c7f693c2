pub mod Faults
pub mod Headers
pub mod Rasters
pub mod Reading
pub mod Sources
