pub mod Curves
pub mod Bounds
pub mod OneChannel
pub mod Orders
pub mod PartScans
pub mod ThreeChannels
pub mod OwnWalks
pub mod Ranks
