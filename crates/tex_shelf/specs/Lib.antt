pub mod Faults
pub mod Files
pub mod Frames
pub mod Log
pub mod Pieces
pub mod States
pub mod Stops
pub mod Taking
