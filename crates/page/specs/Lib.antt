pub mod Blocks
pub mod Headers
