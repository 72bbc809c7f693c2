pub mod ColourScans
pub mod PartScans
pub mod Pairs
pub mod Scans
